use Rattle.std.proofs.Common.{◌≡◌, ℕ, zero, suc, ◌*◌, ◌%◌, ◌^◌, ◌<◌, refl, ap, arith}
use Rattle.tally_records.proofs.login.words.first_bytes.Goals as goal

shifted : (n : ℕ) → n < 8 → 1 * 2 ^ (8 * n) % 18446744073709551616 ≡ 256 ^ n
shifted zero l = refl
shifted (suc zero) l = refl
shifted (suc (suc zero)) l = refl
shifted (suc (suc (suc zero))) l = refl
shifted (suc (suc (suc (suc zero)))) l = refl
shifted (suc (suc (suc (suc (suc zero))))) l = refl
shifted (suc (suc (suc (suc (suc (suc zero)))))) l = refl
shifted (suc (suc (suc (suc (suc (suc (suc zero))))))) l = refl
shifted (suc (suc (suc (suc (suc (suc (suc (suc n)))))))) l = absurd (omega arith)

pub returns : goal.returns
returns c = ap (λ (m : ℕ). c.args.word % m) (shifted c.args.count c.requires)
