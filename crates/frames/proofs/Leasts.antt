-- The least value of a set, and the cut above it. Assumes nothing.
use Rattle.std.proofs.Common.{◌≡◌, ℕ, zero, suc, ◌+◌, ◌<◌, min, true, false, ◌&&◌, leb, ◌⊎◌, Some, None, Option, unwrap_or, sym, ap, ◌∙◌, inl, inr, arith}
use Rattle.std.proofs.lemmas.Bool.{cond-true, cond-false, cases_Bool, and_left}
use Rattle.std.proofs.lemmas.Bool.Decides.{nat_tests}
use Rattle.rows.specs.Values.{Values, Same, LeastOf, Least}
use Rattle.frames.specs.Parts.{least_under}

-- a least value is the one that is found
pub least_is : (n : ℕ) (p : Values) (m : ℕ) → m < n → LeastOf p m → least_under n p ≡ m
unfolding least_under
least_is zero p m h l = absurd (omega arith)
least_is (suc n) p zero h l = cond-true (p 0) _ _ l.member
least_is (suc n) p (suc m) h l =
    cond-false (p 0) _ _ (l.bound 0 (omega arith))
    ∙ ap suc (least_is n (λ v. p (suc v)) m (omega arith) (record { member = l.member; bound = λ v k. l.bound (suc v) (omega arith) }))

-- equal sets have the same least value
pub least_moved : (p q : Values) (m : ℕ) → Same q p → LeastOf p m → LeastOf q m
least_moved p q m same l = record { member = same m ∙ l.member; bound = λ v h. same v ∙ l.bound v h }

-- below 256, a cut at `room` above the least value, or at 255 if that is less, is the cut of the rule
pub cut_at : (p q : Values) (least : Option ℕ) (room top : ℕ) → Same q p → Least p least → ((v : ℕ) → p v ≡ true → v < 256)
    → top ≡ min (unwrap_or least 0 + min room 255) 255 → (v : ℕ) → (p v && leb v top) ≡ (q v && leb v (least_under 256 q + room))
cut_at p q None room top same none small at v = and_left (p v) (leb v top) (none v) ∙ sym (and_left (q v) _ (same v ∙ none v))
cut_at p q (Some m) room top same some small at v = go (cases_Bool (p v))
  where
    is : least_under 256 q ≡ m
    is = least_is 256 q m (small m some.member) (least_moved p q m same some)

    go : (p v ≡ true) ⊎ (p v ≡ false) → (p v && leb v top) ≡ (q v && leb v (least_under 256 q + room))
    go (inr out) = and_left (p v) (leb v top) out ∙ sym (and_left (q v) _ (same v ∙ out))
    go (inl in') =
        let low-v = small v in' in
        let same-v = same v in
        let low-is = is in
        grind (arith, nat_tests)
