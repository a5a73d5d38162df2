use Rattle.std.proofs.Common.{◌≡◌, ◌+◌, suc, set, sym, ap, ◌∙◌, ap₂, rules, arith, length-set}
use Rattle.std.specs.Iterator.Adapters.{enumerate_source, enumerate_count}
use Rattle.draft.specs.Memory.{overlay}
use Rattle.draft.proofs.Chains.{item_next, none_next}
use Rattle.draft.proofs.reading.write_from.Goals as goal

pub loop-i-preserved : goal.loop-i-preserved
loop-i-preserved g c =
    let it = c.loop-i.i-iterator in
    let here : c.args.at + c.in-Some.i ≡ c.args.at + enumerate_count it = ap (λ k. c.args.at + k) c.in-Some.ensures.steps.1 in
    let behind : c.args.at + enumerate_count c.next.new.self ≡ suc (c.args.at + enumerate_count it) = omega (arith, c.in-Some.ensures.steps.2) in (
      search rules,
      search rules,
      omega (arith, c.loop-i.invariant.2, behind, (c.in-Some.ensures.goes.on c.loop-i.invariant.1).2, length-set c.loop-i.places (c.args.at + c.in-Some.i) c.in-Some.item),
      λ ts gives.
          let so_far = c.loop-i.invariant.3 ts gives in
          let next = item_next g.I.Iterator.next_gives (λ t. t) (enumerate_source it) (enumerate_source c.next.new.self) so_far.0 c.in-Some.item so_far.1 c.in-Some.ensures.steps.0 in (
            next.0,
            next.2,
            ap₂ (λ k n. overlay (set c.loop-i.places k c.in-Some.item) n next.0) here behind
                ∙ sym (ap (overlay c.loop-i.places (c.args.at + enumerate_count it)) next.1)
                ∙ so_far.2,
          ),
    )

pub returns : goal.returns
returns g c ts gives =
    let so_far = c.loop-i.invariant.3 ts gives in
    let none = none_next g.I.Iterator.next_gives (λ t. t) (enumerate_source c.loop-i.i-iterator) (enumerate_source c.next.new.self) so_far.0 so_far.1 c.in-None.ensures.steps.0 in
    ap (overlay c.loop-i.places (c.args.at + enumerate_count c.loop-i.i-iterator)) (sym none) ∙ so_far.2
