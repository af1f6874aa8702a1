-- What document 01 says of the percentage sheet, the rule sheet, lookup, churn and the count of a share, what an update reads (document 02, Req 03 and
-- 04), and what becomes of four-place percentages (Req 07).
-- `specs/` is what a reader must believe: the definitions that the public contracts cite, and the worked cases, in files named so. `specs/Inner/` has
-- the contracts of inner functions, which are proved against these.
pub mod Reading
pub mod FirstLine
pub mod PercentageSheet
pub mod RuleSheet
pub mod Calls
pub mod Shares
pub mod Update
pub mod Demand
pub mod FourPlaces
pub mod Cases
pub mod TwelveCases
pub mod Inner
