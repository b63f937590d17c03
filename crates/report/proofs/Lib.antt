pub mod ObservationLaws
