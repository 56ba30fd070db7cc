use Rattle.std.proofs.Common.{◌≡◌, ◌+◌, ◌<◌, ◌≤◌, ◌++◌, ℕ, List, Result, Ok, Err, length, refl, ap, ◌∙◌, sym, subst, arith, length-append}
use Rattle.std.proofs.lemmas.List.{length-map}
use Rattle.std.proofs.lemmas.List.Elements.{All-append, All-map}
use Rattle.std.specs.List.{All}
use Rattle.std.specs.Prelude.{OnOk, OnErr}
use Rattle.tally_records.specs.declared.login.LoginRecord.{LoginRecord}
use Rattle.tally_records.specs.Records.{Records, Logins, Procs, IsLogins, logins_in, record_count}
use Rattle.tally_sessions.specs.declared.entry.Entry.{Entry}
use Rattle.tally_sessions.specs.Hosts.{posted_by}
use Rattle.tally_book.specs.declared.logins.Kept.{Kept}
use Rattle.tally_book.specs.declared.logins.LoginStore.TheInside.{Inside}
use Rattle.tally_book.specs.inside.LoginStates.{LoginState}
use Rattle.tally_book.specs.inside.LoginStores.{IsSound, entries_of, hosts_of}
use Rattle.tally_book.proofs.logins.LoginStore.store.Goals as goal

-- with a batch of the host's after the entries
grown : (a : Inside) (kept : Kept) (host : ℕ) (rs : List LoginRecord) → IsSound a → host < a.hosts → length (entries_of a.kept) + length rs ≤ 16777216 → entries_of kept ≡ entries_of a.kept ++ posted_by host rs → hosts_of a.hosts kept ≡ a.hosts
    → IsSound (record a { kept = kept })
grown a kept host rs h host_in room is hosts = record {
  some_hosts = h.some_hosts;
  few_hosts = h.few_hosts;
  within = subst (All (λ (e : Entry). e.host < a.hosts)) (sym is)
      (All-append (λ (e : Entry). e.host < a.hosts) (entries_of a.kept) (posted_by host rs) h.within (All-map (λ (e : Entry). e.host < a.hosts) (λ (r : LoginRecord). record { host = host; item = r }) rs (λ k d lt. host_in)));
  few = omega (arith, ap length is, length-append (entries_of a.kept) (posted_by host rs), length-map {B = Entry} rs (λ r. record { host = host; item = r }), room);
  hosts = hosts;
}

-- as it was
same : (a : Inside) (kept : Kept) → IsSound a → entries_of kept ≡ entries_of a.kept → hosts_of a.hosts kept ≡ a.hosts → IsSound (record a { kept = kept })
same a kept h is hosts = record {
  some_hosts = h.some_hosts;
  few_hosts = h.few_hosts;
  within = subst (All (λ (e : Entry). e.host < a.hosts)) (sym is) h.within;
  few = omega (arith, ap length is, h.few);
  hosts = hosts;
}

either : {X E : Type 0} (r : Result X E) (a : Inside) (kept : Kept) (host : ℕ) (rs : List LoginRecord) → IsSound a → host < a.hosts → length (entries_of a.kept) + length rs ≤ 16777216 → OnOk r (entries_of kept ≡ entries_of a.kept ++ posted_by host rs)
    → OnErr r (entries_of kept ≡ entries_of a.kept) → hosts_of a.hosts kept ≡ a.hosts → IsSound (record a { kept = kept })
either (Ok x) a kept host rs h host_in room stored refused hosts = grown a kept host rs h host_in room stored hosts
either (Err e) a kept host rs h host_in room stored refused hosts = same a kept h refused hosts

counted : (b : Records) → IsLogins b → record_count b ≡ length (logins_in b)
counted (Logins rs) k = refl
counted (Procs rs) k = cc

pub invariant_of-self : goal.invariant_of-self
invariant_of-self c =
    let a = c.self.inside in
    let view = c.self.view_is in
    let host_in : c.args.host < a.hosts = omega (arith, ap (λ (s : LoginState). s.hosts) view, c.requires.host) in
    let room : length (entries_of a.kept) + length (logins_in c.args.batch.now) ≤ 16777216 =
    omega (arith, ap (λ (s : LoginState). length s.entries) view, c.requires.room, counted c.args.batch.now c.requires.kind) in
    either c.store.result a c.store.new.self c.args.host (logins_in c.args.batch.now) c.self.invariant host_in room c.store.ensures.stored c.store.ensures.refused (c.store.ensures.hosts a.hosts ∙ c.self.invariant.hosts)
