use Rattle.std.proofs.Common.{◌≡◌, ◌<◌, length, Some, rules}
use Rattle.pictures.specs.Grids.{index_in}
use Rattle.pictures.proofs.Grids.{sample-there, sample-is}
use Rattle.pictures.proofs.grid.Samples.sample.Goals as goal

pub bounds-self-at : goal.bounds-self-at
bounds-self-at g c =
    let s = c.args.self.now in
    let h : index_in s.grid c.args.x c.args.y ≡ Some c.in_ok-at.at = search rules in
    sample-there s c.args.x c.args.y c.in_ok-at.at h

pub offset_bounds-self-at : goal.offset_bounds-self-at
offset_bounds-self-at g c =
    let s = c.args.self.now in
    let h : index_in s.grid c.args.x c.args.y ≡ Some c.in_ok-at.at = search rules in
    let b : c.in_ok-at.at < length s.samples.now = sample-there s c.args.x c.args.y c.in_ok-at.at h in
    search rules

pub returns : goal.returns
returns g c =
    let s = c.args.self.now in
    let h : index_in s.grid c.args.x c.args.y ≡ Some c.in_ok-at.at = search rules in
    sample-is s c.index-self-at.result c.args.x c.args.y c.in_ok-at.at h
