use Rattle.std.proofs.Common.{◌≡◌, ◌+◌, ◌≤◌, List, length}
use Rattle.std.specs.Iterator.{AlwaysYields}
use Rattle.std.specs.Iterator.Adapters.{enumerate_source, enumerate_count}
use Rattle.draft.specs.Memory.{overlay}
use Rattle.draft.proofs.reading.write_from.Given as goal

-- writing what is left makes it whole, and there is room for it
abbrev pub invariant-loop-i : goal.invariant-loop-i
invariant-loop-i g l =
    (goal.iterator-loop-i g).can_next l.i-iterator ×
    (goal.iterator-loop-i g).is_finite l.i-iterator ×
    (l.at + enumerate_count l.i-iterator + (goal.iterator-loop-i g).remaining l.i-iterator ≤ length l.places) ×
    ((ts : List g.row.T.Denot) → AlwaysYields g.I.Iterator.next_gives (λ t. t) l.fn.items ts
    → (left : List g.row.T.Denot) × AlwaysYields g.I.Iterator.next_gives (λ t. t) (enumerate_source l.i-iterator) left × (overlay l.places (l.at + enumerate_count l.i-iterator) left ≡ overlay l.initial.places l.at ts))
