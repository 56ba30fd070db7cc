-- From the mask of one load to bytes that are printed as they are.
use Rattle.std.proofs.Common.{◌≡◌, ℕ, ◌+◌, ◌%◌, ◌^◌, ◌≤◌, cond, eqb, ltb, true, not, List, map, length, get_or, replicate, Fits, w8, refl, sym, ap, ◌∙◌, arith}
use Rattle.std.proofs.lemmas.Bool.{agree_below, agree_below_at}
use Rattle.std.proofs.lemmas.List.{length-map}
use Rattle.std.proofs.lemmas.Simd.{map-map, mask_l-mod, length-chunk, first_set_mask_l, run_in_chunk_le, run_in_chunk_fails, zip2_of_maps, zip2_splat, zip2_splat_left}
use Rattle.std.specs.List.{prefix_len}
use lib.Bits.{bit_or}
use lib.Lanes.{chunk, mask_l, top, zip2}
use Rattle.tally_print.specs.inside.Plain.{IsRun, is_unusual, lowest_bit}

-- a comparison sets the whole lane
abbrev below : ℕ → ℕ → ℕ
below a b = cond (ltb a b) 255 0

abbrev equal : ℕ → ℕ → ℕ
equal a b = cond (eqb a b) 255 0

-- the lane of a byte
abbrev lane : ℕ → ℕ
lane b = bit_or (bit_or (below b 0x20) (below 0x7E b)) (bit_or (equal b 44) (equal b 34))

lane_is_set : agree_below (λ b. top 7 (lane b)) is_unusual 256 ≡ true
lane_is_set = refl

lanes_are : (v : List ℕ) → length v ≡ 16
    → zip2 bit_or (zip2 bit_or (zip2 below v (replicate 16 0x20)) (zip2 below (replicate 16 0x7E) v)) (zip2 bit_or (zip2 equal v (replicate 16 44)) (zip2 equal v (replicate 16 34))) ≡ map lane v
lanes_are v long =
    zip2_of_maps bit_or (λ b. bit_or (below b 0x20) (below 0x7E b)) (λ b. bit_or (equal b 44) (equal b 34)) v
    (zip2_of_maps bit_or (λ b. below b 0x20) (λ b. below 0x7E b) v (zip2_splat below v 16 0x20 long) (zip2_splat_left below 0x7E 16 v long))
    (zip2_of_maps bit_or (λ b. equal b 44) (λ b. equal b 34) v (zip2_splat equal v 16 44 long) (zip2_splat equal v 16 34 long))

-- the mask of the lanes, as the code makes them
pub run_from_lanes : (field : List ℕ) (at run : ℕ) → at + 16 ≤ length field → ((k : ℕ) → Fits w8 (get_or field k 0))
    → run ≡ lowest_bit (mask_l (map (top 7) (zip2 bit_or (zip2 bit_or (zip2 below (chunk at 16 field) (replicate 16 0x20)) (zip2 below (replicate 16 0x7E) (chunk at 16 field))) (zip2 bit_or (zip2 equal (chunk at 16 field) (replicate 16 44)) (zip2 equal (chunk at 16 field) (replicate 16 34))))) % 2 ^ 64)
    → IsRun field at run
run_from_lanes field at run room fits found =
    let p = λ (b : ℕ). top 7 (lane b) in
    let v = chunk at 16 field in
    let long = length-chunk at 16 field room in
    let mask = ap (λ l. mask_l (map (top 7) l) % 2 ^ 64) (lanes_are v long) ∙ ap (λ l. mask_l l % 2 ^ 64) (map-map (top 7) lane v) ∙ mask_l-mod (map p v) 64 (omega (arith, length-map v p, long)) in
    let counted : run ≡ prefix_len (λ b. not (p b)) v = found ∙ ap lowest_bit mask ∙ first_set_mask_l p v 16 long (omega arith) in (
      run_in_chunk_le p field at 16 run 0 room counted,
      λ k from to. sym (agree_below_at p is_unusual 256 (get_or field k 0) lane_is_set (fits k).fits) ∙ run_in_chunk_fails p field at 16 run 0 room counted k from to,
    )
