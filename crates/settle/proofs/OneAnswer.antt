-- Two settlings of the same sets agree. Assumes nothing.
use Rattle.std.proofs.Common.{◌≡◌, ℕ, suc, List, [], ◌∷◌, sym, refl, ap, ◌∙◌, ⊎_elim}
use Rattle.std.proofs.lemmas.Bool.Decides.{same_from_decides}
use Rattle.rules.specs.Rules.{Sets, Rule, EachRule, LawfulRule, Supported, Narrowed}
use Rattle.settle.specs.Rounds.{Round, Rounds, last, more, SomeEmpty, AllEmpty, SameSets, Settling, at_once, emptied, ringed, ringless}
use Rattle.settle.specs.Theorems.{OneSettling}
use Rattle.settle.specs.declared.outcome.Grade.{Grade}
use Rattle.settle.proofs.Rounding.{in_or_not}

same_back : {n : ℕ} {S T : Sets} → SameSets n S T → SameSets n T S
same_back same f v l = sym (same f v l)

same_empty : {n : ℕ} {S T : Sets} → SameSets n S T → SomeEmpty n S → SomeEmpty n T
same_empty same (f, l, none) = (f, l, λ v. same f v l ∙ none v)

-- one narrowing
one_narrowing : (n : ℕ) (r : Rule) (S T S' T' : Sets) → LawfulRule n r → SameSets n S T → Narrowed r S S' → Narrowed r T T' → SameSets n S' T'
one_narrowing n r S T S' T' law same N M f v l =
    ⊎_elim
    (λ i. same_from_decides (T' f v) (S' f v) (λ e. moved T S (same_back same) f v (M.left f v i e), λ s. M.kept f v i (moved S T same f v s)) (N.left f v i, N.kept f v i))
    (λ out. M.others f v out ∙ same f v l ∙ sym (N.others f v out))
    (in_or_not f r.scope)
  where
    moved : (A B : Sets) → SameSets n A B → (f v : ℕ) → Supported A r f v → Supported B r f v
    moved A B alike f v s = record {
      line = s.line;
      gives = s.gives;
      inside = λ g j. alike g (s.line g) (law.below g j) ∙ s.inside g j;
      allowed = s.allowed;
    }

one_round : (n : ℕ) (rules : List Rule) (S T S' T' : Sets) → EachRule (LawfulRule n) rules → SameSets n S T → Round rules S S' → Round rules T T' → SameSets n S' T'
one_round n [] S T S' T' law same R Q f v l = Q f v ∙ same f v l ∙ sym (R f v)
one_round n (r ∷ rs) S T S' T' law same R Q f v l =
    one_round n rs R.0 Q.0 S' T' law.1 (one_narrowing n r S T R.0 Q.0 law.0 same R.1 Q.1) R.2 Q.2 f v l

-- two pairs of sets that agree change alike
alike_still : {n : ℕ} {S T S' T' : Sets} → SameSets n S T → SameSets n S' T' → SameSets n S S' → SameSets n T T'
alike_still same same' still f v l = same' f v l ∙ still f v l ∙ sym (same f v l)

one_rounds : {n : ℕ} {rules : List Rule} {S T S' T' : Sets} {r q : ℕ} → EachRule (LawfulRule n) rules → SameSets n S T → Rounds n rules S r S' → Rounds n rules T q T' → (r ≡ q) × SameSets n S' T'
one_rounds {n} {rules} {S} {T} law same (last {S' = S'} R why) (last {S' = T'} Q why') = (refl, one_round n rules S T S' T' law same R Q)
one_rounds {n} {rules} {S} {T} law same (last {S' = S'} R why) (more {S' = T'} Q alive moved rest) =
    let both = one_round n rules S T S' T' law same R Q in
    absurd (⊎_elim (λ some. alive (same_empty both some)) (λ still. moved (alike_still same both still)) why)
one_rounds {n} {rules} {S} {T} law same (more {S' = S'} R alive moved rest) (last {S' = T'} Q why) =
    let both = one_round n rules S T S' T' law same R Q in
    absurd (⊎_elim (λ some. alive (same_empty (same_back both) some)) (λ still. moved (alike_still (same_back same) (same_back both) still)) why)
one_rounds {n} {rules} {S} {T} law same (more {S' = S'} R alive moved rest) (more {S' = T'} Q alive' moved' rest') =
    let ends = one_rounds law (one_round n rules S T S' T' law same R Q) rest rest' in
    (ap suc ends.0, ends.1)

both_empty : {n : ℕ} {S T : Sets} → AllEmpty n S → AllEmpty n T → SameSets n S T
both_empty none none' f v l = none' f v l ∙ sym (none f v l)

pub one_settling : OneSettling
one_settling n rules S T S' T' g h r q law same first second = go first second
  where
    rounds : {A B : Sets} {i j : ℕ} → Rounds n rules S i A → Rounds n rules T j B → (i ≡ j) × SameSets n A B
    rounds R Q = one_rounds law.each same R Q

    go : {A B : Sets} {a b : Grade} {i j : ℕ} → Settling n rules S a i A → Settling n rules T b j B → (a ≡ b) × (i ≡ j) × SameSets n A B
    go (at_once some none) (at_once some' none') = (refl, refl, both_empty none none')
    go (at_once some none) (emptied alive Q some' none') = absurd (alive (same_empty same some))
    go (at_once some none) (ringed alive Q full ring) = absurd (alive (same_empty same some))
    go (at_once some none) (ringless alive Q full free) = absurd (alive (same_empty same some))
    go (emptied alive R some none) (at_once some' none') = absurd (alive (same_empty (same_back same) some'))
    go (emptied alive R some none) (emptied alive' Q some' none') = (refl, (rounds R Q).0, both_empty none none')
    go (emptied alive R some none) (ringed alive' Q full ring) = absurd (full (same_empty (rounds R Q).1 some))
    go (emptied alive R some none) (ringless alive' Q full free) = absurd (full (same_empty (rounds R Q).1 some))
    go (ringed alive R full ring) (at_once some' none') = absurd (alive (same_empty (same_back same) some'))
    go (ringed alive R full ring) (emptied alive' Q some' none') = absurd (full (same_empty (same_back (rounds R Q).1) some'))
    go (ringed alive R full ring) (ringed alive' Q full' ring') = (refl, (rounds R Q).0, (rounds R Q).1)
    go (ringed alive R full ring) (ringless alive' Q full' free) = absurd (free ring)
    go (ringless alive R full free) (at_once some' none') = absurd (alive (same_empty (same_back same) some'))
    go (ringless alive R full free) (emptied alive' Q some' none') = absurd (full (same_empty (same_back (rounds R Q).1) some'))
    go (ringless alive R full free) (ringed alive' Q full' ring) = absurd (free ring)
    go (ringless alive R full free) (ringless alive' Q full' free') = (refl, (rounds R Q).0, (rounds R Q).1)
