-- Laws that know nothing of cards
pub mod Lists
pub mod Tables
pub mod Sums
pub mod Listing
pub mod Each
pub mod Places
pub mod Chains
pub mod Part
pub mod Writes
-- The store as facts
pub mod Shapes
pub mod Fair
-- The words of a store
pub mod Rep
pub mod Serials
pub mod Decode
pub mod Sound
pub mod Fresh
pub mod Readings
-- What soundness means, and in format 1
pub mod Walks
pub mod Meaning
pub mod FormatOne
-- What each step does to it, the auditor's second question, and a chain cut at a card
pub mod Look
pub mod Steps
pub mod Growth
pub mod Accepted
pub mod Audit
pub mod Cut
-- The four calls by their numbers, and the demands: of the store as lists, then of its words
pub mod Cases
pub mod Numbers
pub mod Listed
pub mod Demand3
pub mod Demand2
pub mod Outcomes
pub mod WordNumbers
pub mod Opens
pub mod Demands
pub mod Counts
pub mod Deeds
pub mod Jobs
pub mod Tallies
pub mod Refused
pub mod Buckets
-- What the definitions mean, in the words of document 01
pub mod Valid
pub mod Fields
pub mod Decimals
pub mod LineForms
pub mod Heard
-- What each change writes
pub mod Whole
pub mod Segments
pub mod Place
pub mod File
-- What the definitions compute
pub mod Computed
pub mod Give
pub mod Remove
pub mod Parting
pub mod Split
pub mod Join
-- Document 02: the report
pub mod ReportLaws
pub mod Reports
pub mod ReportRead
pub mod ReportCalls
pub mod ReportExample
