use Rattle.draft.proofs.Noting.{noted_distinct}
use Rattle.draft.proofs.reading.all_apart.Goals as goal

pub returns : goal.returns
returns g c fs yields = noted_distinct fs _ _ c.none-seen.ensures _ (c.note_all.ensures fs yields)
