pub mod CivilLemmas
pub mod FieldLemmas
pub mod RowLemmas
pub mod TypeLemmas
