-- Commands as the words say them.
use Rattle.std.specs.Prelude.{ℕ, List}
use Rattle.command_words.specs.Words.{AsksForSend, AsksForReceive, AsksForUle, AsksForCheck, AsksForSample, AsksForTables, AsksForFind, AsksForBridge, AsksForUnbridge, AsksForRelay}
use Rattle.command_words.specs.declared.parse.Command.{Command}
use Rattle.command_words.specs.declared.parse.Command.TheVariants as command

-- the words are those of the command
abbrev pub AsksFor : List (List ℕ) → Command → Type 0
AsksFor words (command.Send name) = AsksForSend words name.now
AsksFor words (command.Receive name) = AsksForReceive words name.now
AsksFor words (command.Ule pid) = AsksForUle words pid
AsksFor words (command.Check name) = AsksForCheck words name.now
AsksFor words (command.Sample number) = AsksForSample words number
AsksFor words (command.Tables name) = AsksForTables words name.now
AsksFor words (command.Find pid) = AsksForFind words pid
AsksFor words (command.Bridge carrier) = AsksForBridge words carrier
AsksFor words (command.Unbridge carrier) = AsksForUnbridge words carrier
AsksFor words (command.Relay inner outer) = AsksForRelay words inner.now outer.now
