-- Lists, functions changed at a place, and orders.
pub mod Lists
pub mod Dropped
pub mod ForwardIsAcyclic
pub mod AcyclicIsOrdered
pub mod WiderRelations
