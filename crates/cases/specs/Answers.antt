-- What the rows of the proved table read of the answers to a list of orders, played from the model's first configuration.
use Rattle.std.specs.Prelude.{List, [], ℕ, get_or}
use Rattle.base.specs.Bytes.{byte_at, word_at}
use Rattle.blocks.specs.Records.{Model}
use Rattle.rules.specs.Configuration.{first}
use Rattle.session.specs.Lists.{Order, played}

-- the answer to order n of a list
abbrev pub answer_to : Model → List Order → ℕ → List ℕ
answer_to M os n = get_or (played M os (first M)).answers n []

-- of an answer: byte 1, the picks made, a pick's fault and its node
abbrev pub said_in : List ℕ → ℕ
said_in a = byte_at a 1

abbrev pub picks_in : List ℕ → ℕ
picks_in a = word_at a 2

abbrev pub fault_in : List ℕ → ℕ
fault_in a = byte_at a 4

abbrev pub node_in : List ℕ → ℕ
node_in a = word_at a 6
