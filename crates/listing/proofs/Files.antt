-- The picture of an accepted file.
use Rattle.std.proofs.Common.{◌≡◌, ℕ, ◌-◌, ◌*◌, List, length, drop, ◌∙◌, arith}
use Rattle.std.proofs.lemmas.List.{length-take, length-drop}
use Rattle.pictures.specs.Bytes.{byte_raster}
use Rattle.pictures.proofs.Places.{byte-whole}
use Rattle.pgm_reader.specs.declared.read.Header.{Header}
use Rattle.pgm_reader.specs.Format.{samples}
use Rattle.pgm_reader.specs.Within.{Bounds}
use Rattle.listing.specs.Listing.{file_picture}

pub file-picture : (bs : List ℕ) (h : Header) → Bounds bs h → byte_raster h.columns (samples bs h) ≡ file_picture bs h
file-picture bs h w =
    let l : length (samples bs h) ≡ h.columns * h.rows = length-take (h.end - h.first) (drop h.first bs) ∙ omega (arith, length-drop h.first bs, w.area, w.inside) in
    byte-whole h.columns h.rows (samples bs h) w.columns_low w.columns_high w.rows_high l
