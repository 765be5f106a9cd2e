-- The records that are given with a text (document 02, item 12: "from given signal, variable and driver records"), and the model that they
-- and the text's own records make.
-- Bytes 0, 1 and 2 are how many signals, variables and drivers there are; from 3 on stand their records, as in blocks, signals first, then
-- variables, then drivers, and nothing else.
use Rattle.std.specs.Prelude.{Bool, true, ◌&&◌, List, [], ◌∷◌, ◌++◌, ℕ, ◌+◌, ◌*◌, eqb, length, take, drop}
use Rattle.base.specs.Below.{list_below}
use Rattle.base.specs.Bytes.{byte_at}
use Rattle.base.specs.Rules.{Rule, ◌needs◌}
use Rattle.blocks.specs.Blocks.{part_at}
use Rattle.blocks.specs.Records.{Model, signal_of, variable_of, driver_of}
use Rattle.blocks.specs.Totals.{totals_ok}
use Rattle.grammar.specs.Grammar.{Statement}
use Rattle.grammar.specs.Made.{made_nodes, made_statements}
use Rattle.model.specs.Rules.{record_rules}
use Rattle.packing.specs.Packed.{Parts}
use Rattle.writing.specs.Written.{record_bytes, node_bytes, statement_bytes}
use Rattle.given.specs.Names.{named}

abbrev pub signals_given : List ℕ → ℕ
signals_given g = byte_at g 0

abbrev pub variables_given : List ℕ → ℕ
variables_given g = byte_at g 1

abbrev pub drivers_given : List ℕ → ℕ
drivers_given g = byte_at g 2

-- where the records of each kind begin, and where the last ends
abbrev pub variables_from : List ℕ → ℕ
variables_from g = 3 + 12 * signals_given g

abbrev pub drivers_from : List ℕ → ℕ
drivers_from g = variables_from g + 12 * variables_given g

abbrev pub given_end : List ℕ → ℕ
given_end g = drivers_from g + 12 * drivers_given g

-- n records from a place on
abbrev pub records_from : {A : Type 0} → (List ℕ → A) → List ℕ → ℕ → ℕ → List A
records_from read g at n = list_below (λ i. read (part_at g (at + 12 * i))) n

-- the model of the given records and those that the text makes: "the text is process 0, the only one"
unfoldable pub model_from : List ℕ → Statement → Model
model_from g p =
    record {
      signals = records_from signal_of g 3 (signals_given g);
      variables = records_from variable_of g (variables_from g) (variables_given g);
      processes = record { first = 0; count = length (made_statements p); zeros = true } ∷ [];
      drivers = records_from driver_of g (drivers_from g) (drivers_given g);
      nodes = made_nodes p;
      statements = made_statements p;
      rows = [];
    }

-- the bytes are as many as the three numbers say
unfoldable pub whole_ok : List ℕ → Bool
whole_ok g = eqb (length g) (given_end g)

-- "27, a name is not among the records, after 26 and before the others"; "Given and made records that break rule 4 to 8 get that number, the
-- first that applies". Given bytes that are not as many as their numbers say are 4, as no total is.
unfoldable pub given_rules : List ℕ → List ℕ → Statement → List Rule
given_rules text g p =
    (27 needs named (signals_given g) (variables_given g) text)
    ∷ (4 needs (whole_ok g && totals_ok (model_from g p)))
    ∷ []

unfoldable pub rules_with : List ℕ → List ℕ → Statement → List Rule
rules_with text g p = given_rules text g p ++ record_rules (model_from g p)

-- the bytes of the records of each kind; a process record has its first statement in bytes 0-1 and how many in 2-3
abbrev pub part : List ℕ → ℕ → ℕ → List ℕ
part g at n = take (12 * n) (drop at g)

unfoldable pub parts_from : List ℕ → Statement → Parts
parts_from g p =
    record {
      signals = part g 3 (signals_given g);
      variables = part g (variables_from g) (variables_given g);
      processes = record_bytes 0 (length (made_statements p)) 0 0 0;
      drivers = part g (drivers_from g) (drivers_given g);
      nodes = node_bytes (made_nodes p);
      statements = statement_bytes (made_statements p);
    }
