-- What is promised of the requests of 02, beside the demands of 00.
-- Assumes nothing.
use Rattle.limits.specs.FlatTable.{Placement}
use Rattle.promises.specs.Shares.{Shares}
use Rattle.promises.specs.Limits.{Limits}
use Rattle.promises.specs.ColdLines.{ColdLines}
use Rattle.promises.specs.WithinLimit.{WithinLimit}
use Rattle.promises.specs.JacketPrice.{JacketPrice}
use Rattle.promises.specs.BothKinds.{BothKinds}

pub record Promises : Type 0 where
  -- N1, yearly share from interest and years
  pub shares : Shares
  -- N2, loss limits between the printed rows
  pub limits : Limits
  -- N3, one flat list for the loss table
  pub flat_list : Placement
  -- N4, cold lines
  pub cold_lines : ColdLines
  -- N5, economy that respects the loss limit
  pub within_limit : WithinLimit
  -- N6, the price of the jacket
  pub jacket_price : JacketPrice
  -- N7, line numbers beyond 65,535
  pub both_kinds : BothKinds
