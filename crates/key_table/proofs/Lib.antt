mod Distinct
