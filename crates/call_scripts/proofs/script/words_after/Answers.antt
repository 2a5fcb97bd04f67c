-- `call_scripts::script::words_after` counts the parts between spaces that come after the skipped ones.
-- Assumes nothing.
use Rattle.std.proofs.Common.{rules, tests, ◌==◌}
use Rattle.std.proofs.lemmas.Iterator.Adapters.{YieldsList-from_skip}
use Rattle.std.proofs.lemmas.Iterator.Consumers.{count_from_yields_List}
use Rattle.std.proofs.lemmas.Iterator.Splits.{YieldsList-from_slice_split}
use Rattle.call_scripts.proofs.script.words_after.Goals as goal

pub returns : goal.returns
returns c =
    count_from_yields_List c.skip.result _ c.count.ensures.ran
    (YieldsList-from_skip c.args.skipped
    (YieldsList-from_slice_split _ (λ b. b == 32) c.args.line.now (cc) (cc) (cc) (λ x r q k. search (rules, tests))) (cc))
