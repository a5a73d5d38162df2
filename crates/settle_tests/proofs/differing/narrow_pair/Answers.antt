use Rattle.rules.proofs.RowSets.{sets_at}
use Rattle.settle_tests.proofs.Others.{beside_moved}
use Rattle.settle_tests.proofs.Pairs.{pair_narrows}
use Rattle.settle_tests.proofs.differing.narrow_pair.Goals as goal

pub returns : goal.returns
returns g c =
    let values = g.R.Row.values in
    let rows = c.args.rows.now in
    let first = c.index-rows-one.result in
    let second = c.index-rows-other.result in
    let same = sets_at values rows c.args.one first c.requires.one c.index-rows-one.is in
    let same' = sets_at values rows c.args.other second c.requires.other c.index-rows-other.is in
    pair_narrows c.args.one c.args.other c.requires.apart values rows c.replace.new.rows c.replace-2.new.rows
    c.beside.result c.beside-2.result c.replace.result c.replace-2.result c.requires.one c.requires.other
    (beside_moved (values first) _ (values second) _ (values c.beside.result) same same' c.beside.ensures)
    (beside_moved (values second) _ (values first) _ (values c.beside-2.result) same' same c.beside-2.ensures)
    c.replace.ensures.after c.replace.ensures.lost c.replace-2.ensures.after c.replace-2.ensures.lost
