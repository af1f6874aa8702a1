-- What document 01 says of the expansion of one service and of the count by first match, and document 02 of the shares kept meanwhile (request 02) and
-- of new weights on kept rules (request 03), of backends by their ids (request 04) and of the least churn (request 05): this is what a reader has to
-- believe. Inner has the contracts of inner functions.
pub mod FirstMatch
pub mod Imbalance
pub mod Steps
pub mod KeptShares
pub mod Cases
pub mod Answer
pub mod OldList
pub mod Known
pub mod Resume
pub mod Inner
