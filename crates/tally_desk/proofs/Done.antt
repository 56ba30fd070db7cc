-- What a caller did stays what it did.
use Rattle.std.proofs.Common.{◌≡◌, ℕ, ◌≤◌, List, [], ◌∷◌, ◌++◌, length, map, drop, sym, refl, ap, ◌∙◌, subst, arith, eqb}
use Rattle.std.proofs.lemmas.List.{map-append, take_all, take-append-le, drop_at}
use Rattle.std.proofs.lemmas.List.Elements.{All-filter, All-head, All-tail}
use Rattle.std.specs.List.{All}
use Rattle.tally_book.specs.declared.history.Call.{Call}
use Rattle.tally_book.specs.declared.history.Call.TheVariants.{Posted, Asked}
use Rattle.tally_book.specs.declared.history.Counts.{Counts}
use Rattle.tally_clock.specs.Rows.{ClockRows}
use Rattle.tally_book.specs.Contents.{Contents}
use Rattle.tally_book.specs.Books.{IsCall, between, caller_of, calls_of, counts_of, posted}
use Rattle.tally_book.specs.Deeds.{Deed, Post, Ask, deed, login_records}
use Rattle.tally_records.specs.declared.login.LoginRecord.{LoginRecord}
use Rattle.tally_records.specs.declared.process.ProcRecord.{ProcRecord}
use Rattle.tally_records.specs.Records.{Records, logins_in, procs_in}
use Rattle.tally_sessions.specs.declared.entry.Entry.{Entry}
use Rattle.tally_sessions.specs.Hosts.{posted_by}
use Rattle.tally_usage.specs.declared.entry.ProcEntry.{ProcEntry}
use Rattle.tally_usage.specs.Summary.{entries_of}
use Rattle.tally_usage.specs.Totals.{records_of}
use Rattle.tally_desk.specs.declared.lock.view.Known.{Known}
use Rattle.tally_desk.specs.Callers.{Fits, Follows}
use Rattle.tally_desk.specs.Passes.{PassState, known_of, HasDone, Stands}
use Rattle.tally_desk.specs.inside.Knowledge.{IsSound}
use Rattle.tally_desk.proofs.Histories.{calls_of_own}

-- what follows a list changes none of its parts
between-append : {X : Type 0} (from to : ℕ) (xs more : List X) → to ≤ length xs → between from to (xs ++ more) ≡ between from to xs
between-append from to xs more within = ap (drop from) (take-append-le to xs more within)

-- later records leave what was done as it is
deeds_same : (callers : ℕ) (clock : ClockRows) (logins more : List Entry) (procs others : List ProcEntry) (cs : List Call) → All (IsCall callers clock logins procs) cs
    → map (deed (logins ++ more) (procs ++ others)) cs ≡ map (deed logins procs) cs
deeds_same callers clock logins more procs others [] s = refl
deeds_same callers clock logins more procs others (Posted caller before after ∷ cs) s =
    let sound = All-head (IsCall callers clock logins procs) (Posted caller before after) cs s in
    let first = between-append before.logins after.logins logins more sound.logins_in in
    let second = between-append before.procs after.procs procs others sound.procs_in in
    let rest = deeds_same callers clock logins more procs others cs (All-tail (IsCall callers clock logins procs) (Posted caller before after) cs s) in
    λ i. Post (login_records (first i)) (records_of (second i)) ∷ rest i
deeds_same callers clock logins more procs others (Asked caller at question answer ∷ cs) s =
    ap (λ ds. Ask question ∷ ds) (deeds_same callers clock logins more procs others cs (All-tail (IsCall callers clock logins procs) (Asked caller at question answer) cs s))

kept : (k : Known) (book : Contents) → IsSound k → Follows k.seen book → map (deed book.logins book.procs) k.mine ≡ map (deed k.seen.logins k.seen.procs) k.mine
kept k book sound more =
    let logins : List Entry = k.seen.logins in
    let procs : List ProcEntry = k.seen.procs in
    let mine : List Call = calls_of k.number k.seen.calls in
    let sounds : All (IsCall k.seen.callers k.seen.clock logins procs) mine = All-filter (λ (c : Call). eqb (caller_of c) k.number) (IsCall k.seen.callers k.seen.clock logins procs) k.seen.calls sound.legal.sound in
    subst (λ (cs : List Call). map (deed book.logins book.procs) cs ≡ map (deed logins procs) cs) sound.own
    ((λ i. map (deed (sym more.logins.1 i) (sym more.procs.1 i)) mine) ∙ deeds_same k.seen.callers k.seen.clock logins more.logins.0 procs more.procs.0 mine sounds)

-- no more of the caller's calls
pub done_same : (k : Known) (book : Contents) → IsSound k → Fits book k
    → map (deed book.logins book.procs) (calls_of k.number book.calls) ≡ map (deed k.seen.logins k.seen.procs) k.mine
done_same k book sound fit = ap (map (deed book.logins book.procs)) fit.own ∙ kept k book sound fit.seen

-- one more of the caller's calls
pub done_more : (k : Known) (book after : Contents) (call : Call) (d : Deed) → IsSound k → Fits book k → Follows k.seen after → after.calls ≡ book.calls ++ call ∷ [] → caller_of call ≡ k.number → deed after.logins after.procs call ≡ d
    → map (deed after.logins after.procs) (calls_of k.number after.calls) ≡ map (deed k.seen.logins k.seen.procs) k.mine ++ d ∷ []
done_more k book after call d sound fit more made by is =
    let mine : calls_of k.number after.calls ≡ k.mine ++ call ∷ [] = ap (calls_of k.number) made ∙ (calls_of_own k.number book.calls call by ∙ ap (λ cs. cs ++ call ∷ []) fit.own) in
    ap (map (deed after.logins after.procs)) mine
    ∙ (map-append (deed after.logins after.procs) k.mine (call ∷ [])
    ∙ (λ i. kept k after sound more i ++ is i ∷ []))

login_records_posted : (caller : ℕ) (rs : List LoginRecord) → login_records (posted_by caller rs) ≡ rs
login_records_posted caller [] = refl
login_records_posted caller (r ∷ rs) = ap (λ l. r ∷ l) (login_records_posted caller rs)

records_of_entries : (caller : ℕ) (rs : List ProcRecord) → records_of (entries_of caller rs) ≡ rs
records_of_entries caller [] = refl
records_of_entries caller (r ∷ rs) = ap (λ l. r ∷ l) (records_of_entries caller rs)

-- from the end of a list up to the end of the longer one is what was added
between_added : {X : Type 0} (xs more : List X) (from to : ℕ) → from ≡ length xs → to ≡ length (xs ++ more) → between from to (xs ++ more) ≡ more
between_added xs more from to a b = ap (drop from) (take_all to (xs ++ more) (omega (arith, b))) ∙ drop_at xs more from (sym a)

-- a post did what its batch says
pub done_post : (book : Contents) (caller number : ℕ) (batch : Records) (before after : Counts) → before ≡ counts_of book → after ≡ counts_of (posted book number batch)
    → deed (posted book number batch).logins (posted book number batch).procs (Posted caller before after) ≡ Post (logins_in batch) (procs_in batch)
done_post book caller number batch before after b a =
    let logins = between_added book.logins (posted_by number (logins_in batch)) before.logins after.logins (ap (λ (n : Counts). n.logins) b) (ap (λ (n : Counts). n.logins) a) in
    let procs = between_added book.procs (entries_of number (procs_in batch)) before.procs after.procs (ap (λ (n : Counts). n.procs) b) (ap (λ (n : Counts). n.procs) a) in
    λ i. Post ((ap login_records logins ∙ login_records_posted number (logins_in batch)) i) ((ap records_of procs ∙ records_of_entries number (procs_in batch)) i)

pub has_done : (book : Contents) (p : PassState) → Stands book p → IsSound (known_of p) → HasDone book p
has_done book p stands sound = done_same (known_of p) book sound stands
