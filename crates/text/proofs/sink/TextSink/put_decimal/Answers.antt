-- The digits that `io::decimal` gives are the fewest that hold the number.
use Rattle.std.proofs.Common.{◌≡◌}
use Rattle.text.proofs.Decimal.{in_decimal}
use Rattle.text.proofs.sink.TextSink.put_decimal.Goals as goal

pub returns-clause-written : goal.returns-clause-written
returns-clause-written g c = in_decimal (λ v. c.put.new.self ≡ g.Self.TextSink.with_text c.args.self.now v) c.put.ensures c.decimal-k.ensures.digits c.decimal-k.ensures.len
