use Rattle.std.proofs.Common.{Err, ap, ◌∙◌}
use Rattle.std.proofs.lemmas.Result.{err_from_is_err_and}
use Rattle.faults.specs.Faults.{told, and_then}
use Rattle.listing.specs.Faults.{list_fault}
use Rattle.listing.specs.Listing.{file_picture, picture_listing}
use Rattle.listing.proofs.Files.{file-picture}
use Rattle.listing.proofs.list.file_text.Goals as goal

pub returns-in_err-picture_text : goal.returns-in_err-picture_text
returns-in_err-picture_text c =
    let bs = c.args.file.now in
    let h = c.in_ok-header.header in
    let e = err_from_is_err_and c.from_residual-in_err-picture_text.result c.from_residual-in_err-picture_text.ensures.1 in
    let p = c.new-picture.ensures ∙ file-picture bs h c.in_ok-header.ensures.within in
    ap (told list_fault) e.1 ∙ ap (λ f. Err (list_fault f)) e.2
    ∙ c.in_err-picture_text.ensures
    ∙ ap picture_listing p
    ∙ ap (λ r. and_then r (λ k. picture_listing (file_picture bs k))) c.in_ok-header.ensures.answer

pub returns : goal.returns
returns c =
    let bs = c.args.file.now in
    let h = c.in_ok-header.header in
    let p = c.new-picture.ensures ∙ file-picture bs h c.in_ok-header.ensures.within in
    c.in_ok-picture_text.ensures
    ∙ ap picture_listing p
    ∙ ap (λ r. and_then r (λ k. picture_listing (file_picture bs k))) c.in_ok-header.ensures.answer
