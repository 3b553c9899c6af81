pub mod ParametersStored
