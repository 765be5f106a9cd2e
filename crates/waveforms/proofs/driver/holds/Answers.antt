-- `holds`: by what v is; a word that holds no null is its value. Assumes nothing.
use Rattle.waveforms.proofs.Held.{holds_value, holds_null}
use Rattle.waveforms.proofs.driver.holds.Goals as goal

pub returns-in-To : goal.returns-in-To
returns-in-To c = rw c.in-To.is (holds_value _ _ (rw c.in-To.is at c.requires))

pub returns-in-Null : goal.returns-in-Null
returns-in-Null c = rw c.in-Null.is (holds_null _)
