use Rattle.draft.proofs.SoundDrafts.{drafts_sound}
use Rattle.draft.proofs.theorems.drafts_are_sound.Goals as goal

pub returns : goal.returns
returns g c = drafts_sound _ g.R.Row.values g.R.Row.SPAN
