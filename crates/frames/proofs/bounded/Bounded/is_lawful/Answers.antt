use Rattle.std.proofs.Common.{refl, rules}
use Rattle.std.proofs.lemmas.Iterator.{YieldsList-from_slice, YieldsList-from_map}
use Rattle.std.proofs.lemmas.Iterator.Consumers.{YieldsList-at}
use Rattle.frames.specs.Parts.{fields}
use Rattle.frames.proofs.Noted.{lawful_noted}
use Rattle.frames.proofs.bounded.Bounded.is_lawful.Goals as goal

pub returns : goal.returns
returns c =
    let frame = c.args.self.now in
    let parts = frame.parts.now in
    lawful_noted parts frame.limit c.args.n c.none.result c.note_all.new.self c.note_all.result frame.some c.none.ensures
    (c.note_all.ensures (fields parts) (YieldsList-from_map _ (λ p. p.field) (YieldsList-at c.map.ensures.source (YieldsList-from_slice parts c.iter.ensures.rest)) c.map.ensures.closure (λ x r q k. search rules)).runs c.args.n refl)
