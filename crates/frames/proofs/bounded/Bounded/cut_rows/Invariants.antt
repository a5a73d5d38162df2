use Rattle.rules.specs.Writes.{Written}
use Rattle.rules.specs.Books.{sets}
use Rattle.frames.specs.Parts.{fields, cut}
use Rattle.frames.proofs.bounded.Bounded.cut_rows.Given as goal

-- the rows of the parts so far are cut
abbrev pub invariant-loop-part : goal.invariant-loop-part
invariant-loop-part g l = Written g.R.Row.values (cut (sets g.R.Row.values l.initial.rows) l.room) (fields l.self.parts.now) l.part-index l.initial.rows l.rows l.changed
