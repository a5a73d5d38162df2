-- What the rows of a list say of the sets that it reads as. Assumes nothing.
use Rattle.std.proofs.Common.{◌≡◌, ℕ, zero, suc, ◌<◌, ◌≤◌, false, List, [], ◌∷◌, length, get_or, set, sym, refl, ap, arith}
use Rattle.rows.specs.Values.{Values}
use Rattle.rules.specs.Books.{sets}

module _ {R : Type 0} (values : R → Values) where
  -- the row x that stands at f
  pub sets_at : (rows : List R) (f : ℕ) (x : R) → f < length rows → x ≡ get_or rows f x → (v : ℕ) → sets values rows f v ≡ values x v
  sets_at [] f x l e v = absurd (omega arith)
  sets_at (r ∷ rs) zero x l e v = ap (λ y. values y v) (sym e)
  sets_at (r ∷ rs) (suc f) x l e v = sets_at rs f x (omega arith) e v

  -- past the end there is no value
  pub sets_past : (rows : List R) (f : ℕ) → length rows ≤ f → (v : ℕ) → sets values rows f v ≡ false
  sets_past [] f l v = refl
  sets_past (r ∷ rs) zero l v = absurd (omega arith)
  sets_past (r ∷ rs) (suc f) l v = sets_past rs f (omega arith) v

  -- equal records read as equal sets
  pub sets_same : (rows rows' : List R) (f : ℕ) → length rows' ≡ length rows → ((d : R) → get_or rows' f d ≡ get_or rows f d) → (v : ℕ) → sets values rows' f v ≡ sets values rows f v
  sets_same [] [] f l e v = refl
  sets_same [] (r ∷ rs) f l e v = absurd (omega arith)
  sets_same (r ∷ rs) [] f l e v = absurd (omega arith)
  sets_same (r ∷ rs) (q ∷ qs) zero l e v = ap (λ x. values x v) (e r)
  sets_same (r ∷ rs) (q ∷ qs) (suc f) l e v = sets_same rs qs f (omega arith) e v

  -- the row that was written
  pub sets_written : (rows : List R) (f : ℕ) (x : R) → f < length rows → (v : ℕ) → sets values (set rows f x) f v ≡ values x v
  sets_written [] f x l v = absurd (omega arith)
  sets_written (r ∷ rs) zero x l v = refl
  sets_written (r ∷ rs) (suc f) x l v = sets_written rs f x (omega arith) v
