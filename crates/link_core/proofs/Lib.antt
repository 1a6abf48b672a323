pub mod PartsLaws
pub mod DataLines
pub mod MapLines
pub mod FaultOrder
pub mod LinkSteps
pub mod OneFault
pub mod Containers
pub mod OneProgram
pub mod Hosts
pub mod CodeLockstep
pub mod Agreement
mod Checked
