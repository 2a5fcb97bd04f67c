-- `instruction_words::channel_words` meets its contract. The loop's invariant: the entries passed have their channel's two ends, the others are the plain words.
-- Assumes nothing.
use Rattle.base.proofs.Lists.{Filled}
use Rattle.instruction_words.specs.Words.{channel_word}
use Rattle.instruction_words.proofs.channel_words.Given as goal

abbrev pub invariant-loop-b : goal.invariant-loop-b
invariant-loop-b l = Filled (channel_word l.receiver l.sender l.channels) 0 l.initial.words l.b l.words
