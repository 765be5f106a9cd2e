-- The names of a text (document 02, item 12: "27, a name is not among the records").
use Rattle.std.specs.Prelude.{Bool, true, ◌&&◌, List, [], ◌∷◌, ℕ, ltb}
use Rattle.base.specs.Cases.{◌∣◌, ◌is◌⇒◌}
use Rattle.grammar.specs.Tokens.{Token, tok, signal_code, variable_code, end_code, tokens}

-- a token that names a signal or a variable names one of so many
unfoldable pub name_ok : ℕ → ℕ → ℕ → ℕ → Bool
name_ok signals variables code value =
    code is signal_code ⇒ ltb value signals
    ∣ code is variable_code ⇒ ltb value variables
    ∣ true

abbrev pub token_ok : ℕ → ℕ → Token → Bool
token_ok signals variables (tok code value) = name_ok signals variables code value

-- each token up to the end mark
unfoldable pub names_ok : ℕ → ℕ → List Token → Bool
names_ok signals variables [] = true
names_ok signals variables (tok code value ∷ ts) =
    code is end_code ⇒ true
    ∣ (name_ok signals variables code value && names_ok signals variables ts)

unfoldable pub named : ℕ → ℕ → List ℕ → Bool
named signals variables text = names_ok signals variables (tokens text)
