use Rattle.std.proofs.Common.{◌∷◌, map, rules}
use Rattle.draft.specs.Lists.{first_field, pairs}
use Rattle.draft.proofs.Chains.{gives, made_given}
use Rattle.draft.proofs.Noting.{field_noted, noted_distinct}
use Rattle.draft.proofs.heads.head_is_apart.Goals as goal

pub returns-then-note : goal.returns-then-note
returns-then-note c =
    let x = c.args.x in
    let fields = map first_field (pairs c.args.list.now) in
    noted_distinct (x ∷ fields) c.none-seen.result c.note_all.new.self c.none-seen.ensures c.note_all.result
    (field_noted x c.none-seen.result c.note.new.self c.note.result c.note.ensures.new c.note.ensures.noted fields c.if-note.true c.note_all.new.self c.note_all.result
    (c.note_all.ensures fields (gives (made_given first_field c.map.ensures.source c.map.ensures.closure (λ x r q k. search rules)))))
