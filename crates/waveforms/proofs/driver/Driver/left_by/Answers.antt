-- `left_by`: by the mechanism. Assumes nothing.
use Rattle.waveforms.proofs.Schedules.{left_transport, left_inertial}
use Rattle.waveforms.proofs.driver.Driver.left_by.Goals as goal

pub returns-in-Transport : goal.returns-in-Transport
returns-in-Transport c = rw c.in-Transport.is (left_transport _ _ c.requires.count_bound)

pub returns-in-Inertial : goal.returns-in-Inertial
returns-in-Inertial c = rw c.in-Inertial.is (left_inertial _ _ _ _ c.run_start.ensures c.without.ensures)
