-- What this crate proves, one record of laws a group.
use Rattle.text.specs.TextLaws.{TextLaws}
use Rattle.text.specs.CompareLaws.{CompareLaws}
use Rattle.text.specs.CheckInputLaws.{CheckInputLaws}

pub record Laws : Type 0 where
  pub text : TextLaws
  pub compare : CompareLaws
  pub input : CheckInputLaws
