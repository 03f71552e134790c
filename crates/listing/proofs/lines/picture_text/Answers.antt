use Rattle.std.proofs.Common.{Ok, Err, ap, ◌∙◌}
use Rattle.std.proofs.lemmas.Result.{err_from_is_err_and}
use Rattle.rules.specs.Distances.{squares}
use Rattle.station.specs.Account.{step, lay}
use Rattle.station.specs.Faults.{station_fault}
use Rattle.faults.specs.Faults.{told}
use Rattle.listing.specs.Listing.{after_lay, after_call, listing_lines, picture_listing}
use Rattle.listing.proofs.lines.picture_text.Goals as goal

pub returns-in_err-lay : goal.returns-in_err-lay
unfolding picture_listing
returns-in_err-lay g c =
    let p = g.P.Picture.shown c.args.picture.now in
    let e = err_from_is_err_and c.from_residual.result c.from_residual.ensures.1 in
    let o = c.in_err-lay.ensures.outcome ∙ ap (λ a. step squares a (lay p)) c.new-station.ensures.account in
    ap (told station_fault) e.1 ∙ ap (λ f. Err (station_fault f)) e.2 ∙ ap after_lay o

pub returns-in_err-otsu : goal.returns-in_err-otsu
unfolding picture_listing
returns-in_err-otsu g c =
    let p = g.P.Picture.shown c.args.picture.now in
    let e = err_from_is_err_and c.from_residual-in_err-otsu.result c.from_residual-in_err-otsu.ensures.1 in
    let o = c.in_ok-lay.ensures.outcome ∙ ap (λ a. step squares a (lay p)) c.new-station.ensures.account in
    ap (told station_fault) e.1 ∙ ap (λ f. Err (station_fault f)) e.2
    ∙ ap (λ q. after_call q.answer (λ s. Ok (listing_lines q.next s))) c.in_err-otsu.ensures.outcome ∙ ap after_lay o

pub returns : goal.returns
unfolding picture_listing
returns g c =
    let p = g.P.Picture.shown c.args.picture.now in
    let o = c.in_ok-lay.ensures.outcome ∙ ap (λ a. step squares a (lay p)) c.new-station.ensures.account in
    ap (λ t. Ok t) c.station_text.ensures
    ∙ ap (λ q. after_call q.answer (λ s. Ok (listing_lines q.next s))) c.in_ok-otsu.ensures.outcome ∙ ap after_lay o
