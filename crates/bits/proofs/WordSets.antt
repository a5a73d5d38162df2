-- What the operations on a word of 64 bits do to the set of its bits. Assumes nothing.
use Rattle.std.proofs.Common.{◌≡◌, ℕ, ◌-◌, ◌*◌, ◌%◌, ◌^◌, ◌<◌, not, ◌&&◌, sym, refl, ap, ◌∙◌, ap₂, ⊎_elim, arith}
use lib.Bits.{bit_and}
use lib.Count.{count_leading_zeros, count_trailing_zeros}
use Rattle.std.proofs.lemmas.Nat.{one_shl}
use Rattle.std.proofs.lemmas.Bool.{cases_lt}
use Rattle.rows.specs.Values.{Same, Empty, LeastOf, GreatestOf, less, without}
use Rattle.rows.specs.Words.{bit}
use Rattle.rows.proofs.Words.{bit_above, bit_zero, bit_of_and, bit_not, bit_single, lowest, top}

-- `a & !b`
pub minus_word : (a b : ℕ) → a < 2 ^ 64 → b < 2 ^ 64 → Same (bit (bit_and a (2 ^ 64 - 1 - b))) (less (bit a) (bit b))
minus_word a b la lb k =
    bit_of_and a (2 ^ 64 - 1 - b) k ∙ ⊎_elim
    (λ l. ap (λ d. bit a k && d) (bit_not 64 b k lb l))
    (λ h. ap₂ ◌&&◌ (bit_above a 64 k la h) refl ∙ sym (ap (λ d. d && not (bit b k)) (bit_above a 64 k la h)))
    (cases_lt k 64)

-- `a & !(1 << j)`
pub without_word : (a j : ℕ) → a < 2 ^ 64 → j < 64 → Same (bit (bit_and a (2 ^ 64 - 1 - (1 * 2 ^ j) % 2 ^ 64))) (without (bit a) j)
without_word a j la l k =
    minus_word a ((1 * 2 ^ j) % 2 ^ 64) la (omega arith) k ∙ ap (λ n. bit a k && not (bit n k)) (one_shl j 64 l) ∙ ap (λ d. bit a k && not d) (bit_single j k)

-- 0 has no bit set
pub zero_empty : (w : ℕ) → w ≡ 0 → Empty (bit w)
zero_empty w e k = ap (λ n. bit n k) e ∙ bit_zero k

-- as many zeros as stand below the lowest bit set
pub word_least : (w : ℕ) → w < 2 ^ 64 → (w ≡ 0 → ⊥) → LeastOf (bit w) (count_trailing_zeros 64 w)
word_least w l some = let low = lowest 64 w (omega (arith, some)) l in record { member = low.is_set; bound = low.bound }

-- 63 less the zeros that stand above the highest bit set
pub word_greatest : (w : ℕ) → w < 2 ^ 64 → (w ≡ 0 → ⊥) → GreatestOf (bit w) (63 - count_leading_zeros 64 w)
word_greatest w l some =
    let high = top 64 w (omega (arith, some)) l in
    let at : 63 - count_leading_zeros 64 w ≡ high.place = omega (arith, high.told) in
    record { member = ap (bit w) at ∙ high.is_set; bound = λ k h. high.bound k (omega arith) }
