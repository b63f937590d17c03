pub mod GivenLocations
