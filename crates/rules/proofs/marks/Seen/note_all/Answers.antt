use Rattle.std.proofs.Common.{◌≡◌, ℕ, List, [], ◌∷◌, ◌++◌, true, false, rules, sym, ◌∙◌, subst, arith}
use Rattle.rules.specs.Seen.{Notes}
use Rattle.rules.specs.declared.marks.Seen.{Seen}
use Rattle.rules.proofs.NewFields.{large_noted, one_noted, then_noted, refused_noted}
use Rattle.rules.proofs.Taking.{taken_next, taken_all}
use Rattle.rules.proofs.marks.Seen.note_all.Goals as goal
use Rattle.rules.proofs.marks.Seen.note_all.Goals.{then-field-n-via-then-field-n, then-field-n-via-else-field-n+then-not-note}

-- the fields so far are noted, and the next one is refused
one_refused : (n f : ℕ) (fs xs more : List ℕ) (before seen after : Seen) → fs ≡ (xs ++ f ∷ []) ++ more
    → Notes xs n before seen true → Notes (f ∷ []) n seen after false → Notes fs n before after false
one_refused n f fs xs more before seen after is so_far last =
    subst (λ gs. Notes gs n before after false) (sym is)
    (refused_noted n (xs ++ f ∷ []) more before after after (then_noted n xs (f ∷ []) before seen after false so_far last))

pub returns-then-field-n : goal.returns-then-field-n
returns-then-field-n g c fs gives m same =
    let steps = g.I.Iterator.next_gives in
    let field = c.in-Some.field in
    let next = taken_next steps c.args.fields c.into_iter-field-iterator.result c.loop-field.field-iterator c.next.new.self
    c.into_iter-field-iterator.ensures.into_iter_gives fs c.loop-field.yielded gives c.loop-field.yielded_by field c.in-Some.ensures.steps in
    one_refused m field fs c.loop-field.yielded next.0 c.args.self.now c.loop-field.self c.then-field-n.self next.1 (c.loop-field.invariant.2 m same)
    (elim c.then-field-n.branch [
      | then-field-n-via-then-field-n w ↦ large_noted m field [] c.loop-field.self c.then-field-n.self (omega (arith, same, w.if-field-n.true))
      | then-field-n-via-else-field-n+then-not-note w ↦ subst (λ seen. Notes (field ∷ []) m c.loop-field.self seen false) (sym w.self-is)
          (one_noted m field c.loop-field.self w.note.new.self false (omega (arith, same, w.if-field-n.false)) (sym w.if-not-note.true ∙ w.note.ensures.new) w.note.ensures.noted)
    ])

pub loop-field-preserved : goal.loop-field-preserved
loop-field-preserved g c = (
  search rules,
  search rules,
  λ m same. then_noted m c.loop-field.yielded (c.in-Some.field ∷ []) c.args.self.now c.loop-field.self c.note.new.self true (c.loop-field.invariant.2 m same)
      (one_noted m c.in-Some.field c.loop-field.self c.note.new.self true (omega (arith, same, c.if-field-n.false)) (sym c.if-not-note.false ∙ c.note.ensures.new) c.note.ensures.noted),
)

pub returns : goal.returns
returns g c fs gives m same =
    subst (λ xs. Notes xs m c.args.self.now c.loop-field.self true)
    (taken_all g.I.Iterator.next_gives c.args.fields c.into_iter-field-iterator.result c.loop-field.field-iterator c.next.new.self
    c.into_iter-field-iterator.ensures.into_iter_gives fs c.loop-field.yielded gives c.loop-field.yielded_by c.in-None.ensures.steps)
    (c.loop-field.invariant.2 m same)
