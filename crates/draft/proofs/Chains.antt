-- What comes of a chain over the pairs of a list. Assumes nothing.
use Rattle.std.proofs.Common.{◌≡◌, ℕ, false, List, [], ◌∷◌, map, filter_map, Some, None, Option, refl, sym, ap}
use Rattle.std.proofs.lemmas.Iterator.{YieldsList, YieldsList-from_map, maps}
use Rattle.std.proofs.lemmas.Iterator.Adapters.{YieldsList-from_once}
use Rattle.std.proofs.lemmas.Iterator.Consumers.{YieldsList-at, YieldsList-from_first, YieldsList-from_filter_map, YieldsList-from_chain}
use Rattle.std.specs.Fn.{Called, Mut}
use Rattle.std.specs.Iterator.{AlwaysYields, YieldsFirst}
use Rattle.std.specs.declared.iter.Chain.{Chain}
use Rattle.std.specs.declared.iter.FilterMap.{FilterMap}
use Rattle.std.specs.declared.iter.Map.{Map}
use Rattle.std.specs.declared.iter.Once.{Once}
use Rattle.std.specs.Iterator.Adapters.{map_source, map_callee, filter_map_source, filter_map_callee, filter_map_steps, chain_first, chain_second, chain_first_done, chain_second_done, chain_steps, once_item, once_steps}
use Rattle.draft.specs.Lists.{pairs}
use Rattle.draft.specs.declared.pairs.Pairs.{Pairs}

-- a chain proof, as a clause asks for it
pub gives : {S A B : Type 0} {steps : S → Option A → S → Type 0} {v : A → B} {s : S} {ys : List B} → YieldsList steps v s ys → AlwaysYields steps v s ys
gives e = e.runs

-- the pairs of a list
pub pairs_given : (s : Pairs) → YieldsList (YieldsFirst (λ s. pairs s.0.now)) (λ p. p) s (pairs s.0.now)
pairs_given s = YieldsList-from_first (λ p. p) (λ s. pairs s.0.now) (pairs s.0.now) refl

-- what is made of each pair
pub made_given : {F B : Type 0} {g : Mut F ((ℕ × ℕ) × Unit {0}) B} {s : Map Pairs F} {t : Pairs} {f : F} (h : ℕ × ℕ → B) → map_source s ≡ t → map_callee s ≡ f
    → ((x : ℕ × ℕ) (r : B) (q : F) → Called g f (x, tt) r q → (q ≡ f) × (r ≡ h x)) → YieldsList (maps (YieldsFirst (λ s. pairs s.0.now)) g) (λ r. r) s (map h (pairs t.0.now))
made_given {g = g} {t = t} h source callee calls = YieldsList-from_map g h (YieldsList-at source (pairs_given t)) callee calls

-- what is made of those pairs of which something is made
pub chosen_given : {F B : Type 0} {g : Mut F ((ℕ × ℕ) × Unit {0}) (Option B)} {s : FilterMap Pairs F} {t : Pairs} {f : F} (h : ℕ × ℕ → Option B) → filter_map_source s ≡ t → filter_map_callee s ≡ f
    → ((x : ℕ × ℕ) (r : Option B) (q : F) → Called g f (x, tt) r q → (q ≡ f) × (r ≡ h x)) → YieldsList (filter_map_steps (YieldsFirst (λ s. pairs s.0.now)) g) (λ y. y) s (filter_map h (pairs t.0.now))
chosen_given {g = g} {t = t} h source callee calls = YieldsList-from_filter_map g h (YieldsList-at source (pairs_given t)) callee calls

-- one item, then those of another iterator
pub one_then : {T A : Type 0} {others : T → Option A → T → Type 0} {s : Chain (Once A) T} {o : Once A} {t : T} {x : A} {ys : List A} → once_item o ≡ Some x → chain_first s ≡ o → chain_second s ≡ t
    → chain_first_done s ≡ false → chain_second_done s ≡ false → YieldsList others (λ y. y) t ys → YieldsList (chain_steps once_steps others) (λ y. y) s (x ∷ ys)
one_then {x = x} one first second open_first open_second given =
    YieldsList-from_chain (YieldsList-at first (YieldsList-from_once (Some x) one)) (YieldsList-at second given) open_first open_second

-- ---- one turn of a loop

module _ {S A B : Type 0} (steps : S → Option A → S → Type 0) (v : A → B) (s t : S) where
  -- an item comes, and others are left behind it
  pub item_next : (left : List B) (x : A) → AlwaysYields steps v s left → steps s (Some x) t → (more : List B) × (left ≡ v x ∷ more) × AlwaysYields steps v t more
  item_next [] x gives step = absurd (gives x t step)
  item_next (y ∷ more) x gives step = let next = gives.1 x t step in (more, ap (λ z. z ∷ more) (sym next.0), next.1)

  -- none comes, and nothing is left
  pub none_next : (left : List B) → AlwaysYields steps v s left → steps s None t → left ≡ []
  none_next [] gives step = refl
  none_next (y ∷ more) gives step = absurd (gives.0 t step)
