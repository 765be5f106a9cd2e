-- An expression and the word after it.
-- Assumes nothing.
use mathlib.Core.List.{List}
use Prim.Native.Nat.{ℕ}
use Rattle.grammar.specs.Tokens.{from, NoWord}
use Rattle.grammar.proofs.Unique.{one_expression}
use Rattle.phrases.specs.Phrases.{FoundExpression, NoPhrase}

module _ {text : List ℕ} {at c m y k set : ℕ} {out new : List ℕ} (f : FoundExpression text at m y k set out new) where
  pub no_word_after : NoWord (from text y) c → NoPhrase (from text at) c
  no_word_after n e r h = n r (one_expression f.says h).1
