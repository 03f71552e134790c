use Rattle.std.proofs.Common.{◌≤◌, [], ◌∷◌, length, codes, ◌∙◌, arith}
use Rattle.text.specs.Texts.{line}
use Rattle.text.proofs.Clips.{pushed_whole}
use Rattle.text.proofs.Lines.{length-line, length-decimal-u64}
use Rattle.listing.proofs.FaultLine.{line-fault}
use Rattle.listing.proofs.lines.fault_text.Goals as goal

pub returns : goal.returns
returns c =
    let f = c.args.fault in
    let numbers = f.layer ∷ (f.number ∷ (f.detail ∷ [])) in
    let l : length (line (codes "fault") numbers) ≤ 69 =
    omega (arith, length-line (codes "fault") numbers, length-decimal-u64 f.layer (omega arith), length-decimal-u64 f.number (omega arith), length-decimal-u64 f.detail (omega arith)) in
    pushed_whole [] (line (codes "fault") numbers) c.new-text.result c.push_line.new.self c.new-text.ensures c.push_line.ensures (omega arith) ∙ line-fault f
