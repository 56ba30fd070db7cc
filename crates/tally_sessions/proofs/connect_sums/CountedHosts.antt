-- Sums over the sessions of hosts that each have a count.
use Rattle.std.proofs.Common.{◌≡◌, ◌∙◌, ℕ, ℤ, ◌+◌, ◌-◌, ◌<◌, ◌≤◌, List, [], ◌∷◌, ◌++◌, zero, suc, Option, get_or, length, map, sum, sym, ap, subst, arith, add-zero}
use Rattle.std.proofs.lemmas.List.FromFn.{sum_by-map-range_with_len_more}
use Rattle.std.proofs.lemmas.List.Sums.{sum_by-cons}
use Rattle.std.specs.List.{flat_map, range_with_len}
use Rattle.tally_records.specs.Choice.{every_login}
use Rattle.tally_records.specs.declared.login.LoginRecord.{LoginRecord}
use Rattle.tally_sessions.specs.ConnectSums.{AreCountsOf, Counted, IsCountOf}
use Rattle.tally_sessions.specs.Hosts.{of_host}
use Rattle.tally_sessions.specs.Stays.{stays_from}
use Rattle.tally_sessions.specs.Sums.{sessions_among, sessions_of}
use Rattle.tally_sessions.specs.Totals.{every_host}
use Rattle.tally_sessions.specs.declared.entry.Entry.{Entry}
use Rattle.tally_sessions.specs.declared.sums.Session.{Session}
use Rattle.tally_sessions.proofs.sessions.EveryHost.{every_host_is}
use Rattle.tally_sessions.proofs.sums.HostNumbers.{hosts_are_alike}

-- the count at a place is that of the host's records
pub count_of_host : (cs : List Counted) (es : List Entry) (host : ℕ) (c : Counted) → AreCountsOf cs es → host < length cs → c ≡ get_or cs host c → IsCountOf c (of_host host es)
count_of_host cs es host c h within here = subst (λ (x : Counted). IsCountOf x (of_host host es)) (sym here) (h.each host c within)

-- hosts that add nothing may be left out of a sum
left_out : (g : ℕ → ℕ) (n : ℕ) → ((host : ℕ) → n ≤ host → g host ≡ 0) → (more : ℕ) → sum (map g (range_with_len 0 (n + more))) ≡ sum (map g (range_with_len 0 n))
left_out g n none zero = ap (λ m. sum (map g (range_with_len 0 m))) (add-zero n)
left_out g n none (suc more) =
    let next : n + suc more ≡ (n + more) + 1 = omega arith in
    ap (λ m. sum (map g (range_with_len 0 m))) next
    ∙ sum_by-map-range_with_len_more (λ (x : ℕ). x) g 0 (n + more) (n + more) (omega arith)
    ∙ (λ i. left_out g n none more i + none (n + more) (omega arith) i)
    ∙ add-zero (sum (map g (range_with_len 0 n)))

-- the sessions of some records
abbrev pub sessions_in : List LoginRecord → Option ℤ → List Session
sessions_in rs until = sessions_among every_login (stays_from 0 [] rs until)

-- what a sum over sessions is on the first so many hosts
abbrev pub sum_below : (List Session → ℕ) → List Entry → Option ℤ → ℕ → ℕ
sum_below f es until n = sum (map (λ host. f (sessions_in (of_host host es) until)) (range_with_len 0 n))

-- the next host is added
pub sum_below-more : (f : List Session → ℕ) (es : List Entry) (until : Option ℤ) (n : ℕ) → sum_below f es until (n + 1) ≡ sum_below f es until n + f (sessions_in (of_host n es) until)
sum_below-more f es until n = sum_by-map-range_with_len_more (λ (x : ℕ). x) (λ (host : ℕ). f (sessions_in (of_host host es) until)) 0 n n (omega arith)

module _ (f : List Session → ℕ) (none : f [] ≡ 0) (adds : (xs ys : List Session) → f (xs ++ ys) ≡ f xs + f ys) where
  joined : (own : ℕ → List Session) (hosts : List ℕ) → sum (map (λ host. f (own host)) hosts) ≡ f (flat_map own hosts)
  joined own [] = sym none
  joined own (host ∷ hosts) =
      sum_by-cons (λ (x : ℕ). x) (f (own host)) (map (λ h. f (own h)) hosts) ∙ ap (λ n. f (own host) + n) (joined own hosts) ∙ sym (adds (own host) (flat_map own hosts))

  -- the hosts that have a count have all sessions
  pub sum_of_counts : (cs : List Counted) (es : List Entry) (until : Option ℤ) → AreCountsOf cs es → length cs ≤ 128 → sum_below f es until (length cs) ≡ f (sessions_of every_login es until)
  sum_of_counts cs es until h few =
      let n = length cs in
      let own : ℕ → List Session = λ host. sessions_in (of_host host es) until in
      sym (left_out (λ host. f (own host)) n (λ host le. ap (λ (rs : List LoginRecord). f (sessions_in rs until)) (h.others host le) ∙ none) (128 - n))
      ∙ ap (λ (hosts : List ℕ). sum (map (λ host. f (own host)) hosts)) (every_host_is (n + (128 - n)) (omega arith))
      ∙ joined own every_host
      ∙ ap f (sym (hosts_are_alike every_login es until))
