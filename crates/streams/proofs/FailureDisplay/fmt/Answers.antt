-- The words of a failure are text.
use Rattle.std.proofs.Common.{rules}
use Rattle.streams.proofs.Message.{words_utf8}
use Rattle.streams.proofs.FailureDisplay.fmt.Goals as goal

pub unwrap-requires : goal.unwrap-requires
unwrap-requires g c = search (words_utf8 c.args.self.now, rules)
