-- What is promised of the requests.
-- Assumes nothing.
use Rattle.limits.proofs.FlatTable.{placement}
use Rattle.promises.specs.Promises.{Promises}
use Rattle.promises.proofs.Shares.{shares}
use Rattle.promises.proofs.Limits.{limits}
use Rattle.promises.proofs.ColdLines.{cold_lines}
use Rattle.promises.proofs.WithinLimit.{within_limit}
use Rattle.promises.proofs.JacketPrice.{jacket_price}
use Rattle.promises.proofs.BothKinds.{both_kinds}

pub promises : Promises
promises =
    record {
      shares = shares;
      limits = limits;
      flat_list = placement;
      cold_lines = cold_lines;
      within_limit = within_limit;
      jacket_price = jacket_price;
      both_kinds = both_kinds;
    }
