-- What this crate proves, one record of laws a group.
use Rattle.checking.specs.MiterLaws.{MiterLaws}
use Rattle.checking.specs.StepLaws.{StepLaws}
use Rattle.checking.specs.ReduceLaws.{ReduceLaws}
use Rattle.checking.specs.StandIns.{StandInLaws}
use Rattle.checking.specs.ClauseLaws.{ClauseLaws}
use Rattle.checking.specs.EqualityLaws.{EqualityLaws}
use Rattle.checking.specs.PairLaws.{PairLaws}
use Rattle.checking.specs.EmitLaws.{EmitLaws}
use Rattle.checking.specs.PairEmitLaws.{PairEmitLaws}
use Rattle.checking.specs.Rows.{RowLaws}
use Rattle.checking.specs.RefusalLaws.{RefusalLaws}
use Rattle.checking.specs.FaultLaws.{FaultLaws}
use Rattle.checking.specs.WidthLaws.{WidthLaws}
use Rattle.checking.specs.UnmarkedLaws.{UnmarkedLaws}

pub record CheckingLaws : Type 0 where
  pub miter : MiterLaws
  pub steps : StepLaws
  pub reductions : ReduceLaws
  pub stand_ins : StandInLaws
  pub clauses : ClauseLaws
  -- demand 3
  pub equality : EqualityLaws
  -- the theorem for pairs
  pub pairs : PairLaws
  pub emission : EmitLaws
  pub pair_emission : PairEmitLaws
  pub rows : RowLaws
  pub refusals : RefusalLaws
  pub faults : FaultLaws
  -- words of 16 and of 32 bits
  pub widths : WidthLaws
  -- two cascades without marks compared
  pub unmarked : UnmarkedLaws
