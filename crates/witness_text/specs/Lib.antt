pub mod FencedGaps
pub mod WitnessTexts
pub mod Internal
