-- What an answered value says of its test, for the crates above that know no picture.
pub use Rattle.pictures.proofs.Chosen.{some-unless, some-where}
