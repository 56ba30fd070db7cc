mod CheckLemmas
mod FrontLemmas
mod PlaceLemmas
