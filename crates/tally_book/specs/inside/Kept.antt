-- The fields of a book.
use Rattle.std.specs.Prelude.{◌≡◌}
use Rattle.tally_book.specs.declared.book.Book.TheInside.{Inside}
use Rattle.tally_book.specs.Books.{IsLegal}
use Rattle.tally_book.specs.Contents.{Contents}

-- what contracts see
abbrev pub contents_of : Inside → Contents
contents_of b = record {
  callers = b.callers;
  clock = b.clock;
  room = b.room;
  logins = b.logins.entries;
  procs = b.summary.entries;
  calls = b.calls.items;
}

-- what every book keeps
pub record IsSound (b : Inside) : Type 0 where
  pub hosts : b.logins.hosts ≡ b.callers
  pub legal : IsLegal (contents_of b)
