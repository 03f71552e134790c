use Rattle.std.proofs.Common.{◌≡◌, Err, sym, ap, ◌∙◌, arith}
use Rattle.std.proofs.lemmas.Result.{err_from_is_err_and}
use Rattle.faults.specs.Faults.{told, and_then}
use Rattle.pgm_reader.specs.Faults.{read_fault}
use Rattle.pgm_reader.specs.Format.{with_samples, image_of}
use Rattle.pgm_reader.proofs.Whole.{image-is, behind-length}
use Rattle.pgm_reader.proofs.Maps.{maps-told}
use Rattle.pgm_reader.proofs.Accepted.{within-told}
use Rattle.pgm_reader.proofs.Shapes.{shape-bounds}
use Rattle.pgm_reader.proofs.read.read_behind.Goals as goal

pub returns-in_err-shape : goal.returns-in_err-shape
returns-in_err-shape c =
    let bs = c.args.bytes.now in
    let r = c.from_residual.result in
    let p = err_from_is_err_and r c.from_residual.ensures.1 in
    let e : told read_fault r ≡ image_of bs = ap (told read_fault) p.1 ∙ ap (λ f. Err (read_fault f)) p.2 ∙ ap (λ r. and_then r (with_samples bs)) c.in_err-shape.ensures ∙ sym (image-is bs c.args.rest.now c.requires) in
    record { answer = e; grammar = maps-told bs r e; within = within-told bs r e }

pub read_samples-requires : goal.read_samples-requires
read_samples-requires c =
    let b = shape-bounds c.args.rest.now c.in_ok-shape.shape (sym c.in_ok-shape.ensures) in
    record { narrow = b.0.0; low = b.0.1; inside = omega (arith, b.1, behind-length c.args.bytes.now c.args.rest.now c.requires) }

pub returns : goal.returns
returns c =
    let bs = c.args.bytes.now in
    let r = c.read_samples.result in
    let e : told read_fault r ≡ image_of bs = c.read_samples.ensures ∙ ap (λ r. and_then r (with_samples bs)) c.in_ok-shape.ensures ∙ sym (image-is bs c.args.rest.now c.requires) in
    record { answer = e; grammar = maps-told bs r e; within = within-told bs r e }
