-- what many proofs speak of
mod Vocabulary
pub mod LabelPlaces
pub mod LabelsNamed
pub mod LabelsOnce
pub mod LabelsAgain
pub mod WordsWritten
pub mod PiecesAppended
pub mod PiecesApart
pub mod PiecesRelated
pub mod AsciiTexts
pub mod PrintedIsRead
pub mod TextsGrow
pub mod Lists
pub mod ToldCode
pub mod SaidSigns
pub mod NamedByText
pub mod NamesAgain
pub mod GoodTokens
pub mod ThreadsAgain
pub mod CanonicalIsRead
pub mod NamedPlaces
-- phrases of the grammar, from the smallest on
pub mod OneOfEach
pub mod OneBody
pub mod OneEnding
-- whole texts
pub mod OneFront
pub mod OneTest
pub mod OneListOfCosts
-- conditions and what they name
pub mod NamesTell
-- words of the crates below, passed on
pub use Rattle.outcome_text.proofs.Joined
