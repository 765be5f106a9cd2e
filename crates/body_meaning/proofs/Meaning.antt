-- The theorem of meaning: the made statements lie as the text's do, so the text and the picks show the same. Assumes nothing.
use mathlib.Core.List.{List}
use Prim.Native.Nat.{ℕ}
use Rattle.blocks.specs.Records.{Model}
use Rattle.rules.specs.Configuration.{first}
use Rattle.grammar.specs.Grammar.{Statement as Tree, Sentence}
use Rattle.meaning.proofs.Lies.{same_as_text}
use Rattle.body_meaning.specs.Statements.{ready_at, numbered, effect, test}
use Rattle.body_meaning.specs.Picks.{picks}
use Rattle.body_meaning.specs.Meaning.{Makes, SameMeaning}
use Rattle.body_meaning.proofs.Made.{body_lies}

-- The text and its made records have the same meaning.
pub same_meaning : (M : Model) (body : Tree) {text : List ℕ} → Sentence text body → Makes body M → SameMeaning M body
unfolding first
same_meaning M body sentence makes =
    record {
      start = rw makes.processes;
      same = same_as_text (effect M) (test M) (picks M) (ready_at 0) (numbered 0 0 body) (body_lies M body makes sentence);
    }
