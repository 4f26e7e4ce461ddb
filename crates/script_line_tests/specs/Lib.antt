pub mod IdleMachine
