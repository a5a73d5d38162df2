use Rattle.std.proofs.Common.{◌+◌, true, false, drop, sym, subst}
use Rattle.std.proofs.lemmas.List.{drop_all}
use Rattle.tables.specs.Reads.{cell_fields}
use Rattle.rules.specs.Seen.{NotesBytes}
use Rattle.draft.proofs.CellSteps.{constant_next, field_next}
use Rattle.draft.proofs.Noting.{nothing_noted, field_noted, field_old}
use Rattle.draft.proofs.PairSteps.{drop_none}
use Rattle.draft.proofs.cells.note_cells.Goals as goal
use Rattle.draft.proofs.cells.note_cells.Goals.{in-Field+else-not-note, in_default}

pub loop-cell-init : goal.loop-cell-init
loop-cell-init c after new notes = subst (λ cells. NotesBytes (cell_fields cells) 256 c.args.seen.now after new) (drop_none c.args.cells.now) notes

pub loop-cell-preserved : goal.loop-cell-preserved
loop-cell-preserved c after new notes =
    let cells = c.args.cells.now in
    let i = c.loop-cell.cell-index in
    let within = c.loop-cell-test.true in
    let rest = cell_fields (drop (i + 1) cells) in
    let seen = c.loop-cell.seen in
    c.loop-cell.invariant after new
    (elim c.match-cell.branch [
      | in-Field+else-not-note w ↦
          subst (λ fs. NotesBytes fs 256 seen after new) (sym (field_next cells i within w.in-Field.field w.in-Field.is))
          (field_noted w.in-Field.field seen w.note.new.self w.note.result w.note.ensures.new w.note.ensures.noted rest w.if-not-note.false after new
          (subst (λ s. NotesBytes rest 256 s after new) w.seen-is notes))
      | in_default w ↦
          subst (λ fs. NotesBytes fs 256 seen after new) (sym (constant_next cells i within w.in_default.not-Field))
          (subst (λ s. NotesBytes rest 256 s after new) w.seen-is notes)
    ])

pub returns-then-not-note : goal.returns-then-not-note
returns-then-not-note c =
    let cells = c.args.cells.now in
    let i = c.loop-cell.cell-index in
    let seen = c.loop-cell.seen in
    c.loop-cell.invariant c.note.new.self false
    (subst (λ fs. NotesBytes fs 256 seen c.note.new.self false) (sym (field_next cells i c.loop-cell-test.true c.in-Field.field c.in-Field.is))
    (field_old c.in-Field.field seen c.note.new.self c.note.result c.note.ensures.new c.note.ensures.noted (cell_fields (drop (i + 1) cells)) c.if-not-note.true))

pub returns : goal.returns
returns c =
    c.loop-cell.invariant c.loop-cell.seen true
    (subst (λ cells. NotesBytes (cell_fields cells) 256 c.loop-cell.seen c.loop-cell.seen true) (sym (drop_all c.loop-cell.cell-index c.args.cells.now c.loop-cell-test.false))
    (nothing_noted c.loop-cell.seen))
