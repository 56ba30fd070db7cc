-- A caller's entries are the records of its posts.
use Rattle.std.proofs.Common.{◌≡◌, ℕ, List, [], ◌∷◌, ◌++◌, ◌≤◌, length, map, sym, refl, ap, ◌∙◌, subst, arith, cond, Bool, true, false, eqb}
use Rattle.std.proofs.lemmas.List.{take_all}
use Rattle.std.proofs.lemmas.List.Elements.{All-nil, All-cons, All-head, All-tail}
use Rattle.std.specs.List.{All, flat_map}
use Rattle.tally_book.specs.declared.history.Call.{Call}
use Rattle.tally_book.specs.declared.history.Call.TheVariants.{Posted, Asked}
use Rattle.tally_book.specs.declared.history.Counts.{Counts}
use Rattle.tally_sessions.specs.declared.entry.Entry.{Entry}
use Rattle.tally_usage.specs.declared.entry.ProcEntry.{ProcEntry}
use Rattle.tally_book.specs.Books.{IsCall, Chains, IsLegal, caller_of, before_of, after_of, between, counts_of, nothing, calls_of}
use Rattle.tally_book.specs.Contents.{Contents}
use Rattle.tally_book.specs.Deeds.{Deed, deed, logins_added, procs_added, EntriesArePosts}
use Rattle.tally_book.proofs.Parts.{Part, Joins, IsPart, of_part, owned, owned_is_parts, nothing_between}

pub All-mapped : {A B : Type 0} (f : A → B) (P : A → Type 0) (Q : B → Type 0) → ((x : A) → P x → Q (f x)) → (xs : List A) → All P xs → All Q (map f xs)
All-mapped f P Q h [] all = All-nil Q
All-mapped f P Q h (x ∷ xs) all = All-cons Q _ _ (h x (All-head P x xs all)) (All-mapped f P Q h xs (All-tail P x xs all))

-- a list of a book: its entries, how many of them a count has, and what a deed adds
module _ (b : Contents) {E R : Type 0} (host : E → ℕ) (item : E → R) (entries : List E) (count : Counts → ℕ) (added : Deed → List R) where
  abbrev Sound : Call → Type 0
  Sound = IsCall b.callers b.clock b.logins b.procs

  abbrev done : Call → Deed
  done = deed b.logins b.procs

  -- what a call has of the list
  abbrev part : Call → Part
  part c = record { owner = caller_of c; from = count (before_of c); to = count (after_of c) }

  join : (start end : Counts) (cs : List Call) → Chains start cs end → Joins (count start) (map part cs) (count end)
  join start end [] h = ap count h
  join start end (c ∷ cs) h = (ap count h.0, join (after_of c) end cs h.1)

  -- a question has nothing of the list
  asked_part : (caller at : ℕ) → at ≤ length entries → IsPart host item entries (record { owner = caller; from = at; to = at })
  asked_part caller at within = record {
    ordered = omega arith;
    within = within;
    own = subst (All (λ e. host e ≡ caller)) (sym (nothing_between at entries within)) (All-nil (λ e. host e ≡ caller));
  }

  module _ (is : (c : Call) → Sound c → IsPart host item entries (part c) × (added (done c) ≡ map item (between (count (before_of c)) (count (after_of c)) entries))) (caller : ℕ) where
    -- the deeds of the calls that pass
    first : (t : Bool) (c : Call) (cs : List Call) → flat_map added (map done (cond t (c ∷ cs) cs)) ≡ cond t (added (done c)) [] ++ flat_map added (map done cs)
    first true c cs = refl
    first false c cs = refl

    are_parts : (cs : List Call) → All Sound cs → flat_map added (map done (calls_of caller cs)) ≡ flat_map (of_part host item caller entries) (map part cs)
    are_parts [] h = refl
    are_parts (c ∷ cs) h =
        let rest = are_parts cs (All-tail Sound c cs h) in
        let here = (is c (All-head Sound c cs h)).1 in
        first (eqb (caller_of c) caller) c (calls_of caller cs) ∙ (λ i. cond (eqb (caller_of c) caller) (here i) [] ++ rest i)

    pub are_posts : IsLegal b → count nothing ≡ 0 → count (counts_of b) ≡ length entries → owned host item caller entries ≡ flat_map added (map done (calls_of caller b.calls))
    are_posts legal none all =
        ap (owned host item caller) (sym (take_all (length entries) entries (omega arith)))
        ∙ owned_is_parts host item caller entries (map part b.calls) 0 (length entries) (subst (λ n. Joins n (map part b.calls) (length entries)) none (subst (Joins (count nothing) (map part b.calls)) all (join nothing (counts_of b) b.calls legal.chained)))
        (All-mapped part Sound (IsPart host item entries) (λ c h. (is c h).0) b.calls legal.sound)
        (omega arith)
        ∙ sym (are_parts b.calls legal.sound)

pub entries_are_posts : (b : Contents) → IsLegal b → EntriesArePosts b
entries_are_posts b legal = record {
  logins = λ caller. are_posts b (λ (e : Entry). e.host) (λ (e : Entry). e.item) b.logins (λ n. n.logins) logins_added logins_is caller legal refl refl;
  procs = λ caller. are_posts b (λ (e : ProcEntry). e.host) (λ (e : ProcEntry). e.item) b.procs (λ n. n.procs) procs_added procs_is caller legal refl refl;
}
  where
    logins_is : (c : Call) → IsCall b.callers b.clock b.logins b.procs c → IsPart (λ (e : Entry). e.host) (λ (e : Entry). e.item) b.logins (part b (λ (e : Entry). e.host) (λ (e : Entry). e.item) b.logins (λ n. n.logins) logins_added c)
        × (logins_added (deed b.logins b.procs c) ≡ map (λ (e : Entry). e.item) (between (before_of c).logins (after_of c).logins b.logins))
    logins_is (Posted caller before after) h = (record { ordered = h.logins_grow; within = h.logins_in; own = h.own_logins }, refl)
    logins_is (Asked caller at question answer) h =
        (asked_part b (λ (e : Entry). e.host) (λ (e : Entry). e.item) b.logins (λ n. n.logins) logins_added caller at.logins h.logins_in, ap (map (λ (e : Entry). e.item)) (sym (nothing_between at.logins b.logins h.logins_in)))

    procs_is : (c : Call) → IsCall b.callers b.clock b.logins b.procs c → IsPart (λ (e : ProcEntry). e.host) (λ (e : ProcEntry). e.item) b.procs (part b (λ (e : ProcEntry). e.host) (λ (e : ProcEntry). e.item) b.procs (λ n. n.procs) procs_added c)
        × (procs_added (deed b.logins b.procs c) ≡ map (λ (e : ProcEntry). e.item) (between (before_of c).procs (after_of c).procs b.procs))
    procs_is (Posted caller before after) h = (record { ordered = h.procs_grow; within = h.procs_in; own = h.own_procs }, refl)
    procs_is (Asked caller at question answer) h =
        (asked_part b (λ (e : ProcEntry). e.host) (λ (e : ProcEntry). e.item) b.procs (λ n. n.procs) procs_added caller at.procs h.procs_in, ap (map (λ (e : ProcEntry). e.item)) (sym (nothing_between at.procs b.procs h.procs_in)))
