use Rattle.std.proofs.Common.{true, false, ◌++◌, filter_map, map, ◌∙◌, rules}
use Rattle.std.proofs.lemmas.Bool.{not_from_false}
use Rattle.std.proofs.lemmas.Iterator.{YieldsList-from_slice, YieldsList-from_map}
use Rattle.std.proofs.lemmas.Iterator.Consumers.{YieldsList-at}
use Rattle.tables.specs.Reads.{cell_fields}
use Rattle.draft.specs.Lists.{marked_field, pairs}
use Rattle.draft.proofs.Chains.{gives, chosen_given}
use Rattle.draft.proofs.Noting.{field_noted, noted_then, old_then, noted_distinct}
use Rattle.draft.proofs.cells.scope_is_apart.Goals as goal

pub returns-then-not-note_all : goal.returns-then-not-note_all
returns-then-not-note_all c =
    let axes = map (λ ax. ax.field) c.args.axes.now in
    let cells = cell_fields c.args.cells.now in
    let new = filter_map marked_field (pairs c.args.list.now) in
    let s = c.none-seen.result in
    let t = c.note.new.self in
    let u = c.note_all.new.self in
    let first = c.if-not-note_all.ensures axes (gives (YieldsList-from_map _ (λ ax. ax.field) (YieldsList-at c.map.ensures.source (YieldsList-from_slice c.args.axes.now c.iter.ensures.rest)) c.map.ensures.closure (λ x r q k. search rules))) in
    noted_distinct _ s u c.none-seen.ensures false
    (field_noted c.args.x s t c.note.result c.note.ensures.new c.note.ensures.noted ((axes ++ cells) ++ new) (c.note.ensures.new ∙ not_from_false _ (c.none-seen.ensures c.args.x)) u false
    (old_then (axes ++ cells) new t u u (old_then axes cells t u u first)))

pub returns-then-not-note_cells : goal.returns-then-not-note_cells
returns-then-not-note_cells c =
    let axes = map (λ ax. ax.field) c.args.axes.now in
    let cells = cell_fields c.args.cells.now in
    let new = filter_map marked_field (pairs c.args.list.now) in
    let s = c.none-seen.result in
    let t = c.note.new.self in
    let u = c.note_all.new.self in
    let v = c.note_cells.new.seen in
    let first = c.if-not-note_all.ensures axes (gives (YieldsList-from_map _ (λ ax. ax.field) (YieldsList-at c.map.ensures.source (YieldsList-from_slice c.args.axes.now c.iter.ensures.rest)) c.map.ensures.closure (λ x r q k. search rules))) in
    noted_distinct _ s v c.none-seen.ensures false
    (field_noted c.args.x s t c.note.result c.note.ensures.new c.note.ensures.noted ((axes ++ cells) ++ new) (c.note.ensures.new ∙ not_from_false _ (c.none-seen.ensures c.args.x)) v false
    (old_then (axes ++ cells) new t v v (noted_then axes cells t u v false first c.if-not-note_cells.ensures)))

pub returns : goal.returns
returns c =
    let axes = map (λ ax. ax.field) c.args.axes.now in
    let cells = cell_fields c.args.cells.now in
    let new = filter_map marked_field (pairs c.args.list.now) in
    let s = c.none-seen.result in
    let t = c.note.new.self in
    let u = c.note_all.new.self in
    let v = c.note_cells.new.seen in
    let w = c.note_all-2.new.self in
    let first = c.if-not-note_all.ensures axes (gives (YieldsList-from_map _ (λ ax. ax.field) (YieldsList-at c.map.ensures.source (YieldsList-from_slice c.args.axes.now c.iter.ensures.rest)) c.map.ensures.closure (λ x r q k. search rules))) in
    let last = c.note_all-2.ensures new (gives (chosen_given marked_field c.filter_map.ensures.source c.filter_map.ensures.closure (λ x r q k. search rules))) in
    noted_distinct _ s w c.none-seen.ensures c.note_all-2.result
    (field_noted c.args.x s t c.note.result c.note.ensures.new c.note.ensures.noted ((axes ++ cells) ++ new) (c.note.ensures.new ∙ not_from_false _ (c.none-seen.ensures c.args.x)) w c.note_all-2.result
    (noted_then (axes ++ cells) new t v w c.note_all-2.result (noted_then axes cells t u v true first c.if-not-note_cells.ensures) last))
